-- The laws that the crates above cite: `Lay` a part, and a list with one part replaced; `Bytes` what is made of bytes is bytes, and numbers in bytes; `Some` whether some
-- element passes a test; and what a loop keeps that stores once a turn, `Loop`.
pub mod Lay
pub mod Bytes
pub mod Some
pub mod Loop
