pub mod Blocks
pub mod Promises
