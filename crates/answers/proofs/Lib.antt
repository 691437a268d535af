-- `Tables`: laws of every table of refusals; a row is told by its answer, never by its place.
pub mod Tables
