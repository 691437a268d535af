-- `Fits`: the units of an address of the array lie in it. `Only`: an operation changes at most its unit. `Page`: a page program from the bytes sent to the cells. `Patterns`: what two patterns make of a cut. `Kept`: the kept bits after a status write. `Bits`: after one that was cut, bit by bit.
pub mod Fits
pub mod Only
pub mod Kept
pub mod Page
pub mod Patterns
pub mod Bits
