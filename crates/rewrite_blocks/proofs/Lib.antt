pub mod Moves
pub mod Passages
pub mod Steps
pub mod Whole
