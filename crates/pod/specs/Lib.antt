pub mod Calls
pub mod Promises
pub mod Sfdp
pub mod Samples
