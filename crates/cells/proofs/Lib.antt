-- `Cell`: AND and FF of one cell.
pub mod Cell
