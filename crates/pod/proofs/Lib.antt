-- `Calls`: the effects of the calls from those of the chip. `Promises`: what specs/Promises.antt states. `Sfdp`: no second answer of the SFDP calls. `Samples`: what C calls of the pins.
pub mod Calls
pub mod Promises
pub mod Sfdp
pub mod Samples
