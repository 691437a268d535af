pub mod Recovery
pub mod Histories
pub mod Shorter
pub mod Pods
pub mod Wear
