pub mod Operations
pub mod ContractForms
