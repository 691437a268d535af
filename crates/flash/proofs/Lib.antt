-- `Arrays`: the array after an erase or a program. `RoundTrip`: a sector erased, a page of it programmed, and read back. `View`: an array of a
-- model's length is whole pages. The statements of `specs/Sheet.antt` are proved in Arrays.
pub mod Arrays
pub mod RoundTrip
pub mod View
