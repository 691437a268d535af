pub mod Time
pub mod ContractForms
