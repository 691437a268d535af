pub mod Effects
pub mod ContractForms
