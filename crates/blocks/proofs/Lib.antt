-- `Lines`: state and page data fit their bytes, whatever lines are played. `Lent`: from what a feed gives to what the lent bytes hold. `Promises`: what
-- specs/Promises.antt states.
pub mod Lines
pub mod Lent
pub mod Promises
