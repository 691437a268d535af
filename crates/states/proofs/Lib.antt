-- `States`: a valid state in parts, and the times.
pub mod States
