pub mod Ladder
pub mod Stages
