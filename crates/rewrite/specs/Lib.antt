pub mod Rewriting
pub mod Promises
