-- `Going`: a run, and the way from one front to a later one.
pub mod Going
