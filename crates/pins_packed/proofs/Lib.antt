-- `Fronts`: the eight bytes; `Promises`: what is shown.
pub mod Fronts
pub mod Promises
