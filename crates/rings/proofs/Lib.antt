-- `Ring`: reads that roll over. `Runs`: straight runs of a ring, which is what the loops keep.
pub mod Ring
pub mod Runs
