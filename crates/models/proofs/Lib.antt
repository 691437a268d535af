-- `Table`: a test that passes at every row passes at each. `Rules`: the statements of `specs/Rules.antt`, proved, and how the code finds rows and
-- ranges.
pub mod Table
pub mod Rules
