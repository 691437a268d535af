-- `Driven`: what 5A drives, in two runs. `Promises`: what specs/Promises.antt states.
pub mod Driven
pub mod Promises
