-- `Lent`: a part of the output that was lent, and came back filled.
pub mod Lent
