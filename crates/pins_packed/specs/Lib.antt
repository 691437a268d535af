pub mod Fronts
pub mod Promises
