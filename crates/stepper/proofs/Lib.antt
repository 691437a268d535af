-- `Rows`: the row of a line that was played.
pub mod Rows
