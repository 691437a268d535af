pub mod Packing
pub mod Promises
