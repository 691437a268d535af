-- `Stages`: the stages are the one table. `Passed`: what a frame that nothing refuses has shown.
pub mod Stages
pub mod Passed
