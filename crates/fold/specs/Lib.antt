pub mod Fold
pub mod Sheet
pub mod Strict
