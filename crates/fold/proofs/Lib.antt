-- `Counts`: the byte that counts at an offset. `Fold`: the page after a program. `Strict`: which programs go over old data.
pub mod Counts
pub mod Fold
pub mod Strict
