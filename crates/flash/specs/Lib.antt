pub mod Arrays
pub mod Sheet
