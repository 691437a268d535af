pub mod Frames
pub mod Driven
pub mod ContractForms
