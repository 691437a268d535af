-- `Rows`: what holds of every command's row, and which lengths are allowed.
pub mod Rows
