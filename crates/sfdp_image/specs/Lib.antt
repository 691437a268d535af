pub mod Image
pub mod Sheet
pub mod Promises
