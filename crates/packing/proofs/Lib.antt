-- `Bytes`, `Status`, `Packing`: laws of the packed state. `Valid`: a valid state is a packing's, and fits its bytes. `Promises`: what specs/Promises.antt states.
pub mod Bytes
pub mod Status
pub mod Packing
pub mod Valid
pub mod Promises
