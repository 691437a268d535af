pub mod Recovery
pub mod Histories
pub mod Shorter
pub mod Reached
pub mod Pods
pub mod Wear
