-- `Fits`: what a call that may move the state shows of it, and that what it leaves fits its bytes. `Lent`: what packed bytes spell, and the page data lent as a part of them.
pub mod Fits
pub mod Lent
