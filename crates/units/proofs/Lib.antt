-- `Bools`: Bools taken apart.
pub mod Bools
