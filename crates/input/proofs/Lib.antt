-- `Came`: blocks one after the other, and what they leave.
pub mod Came
