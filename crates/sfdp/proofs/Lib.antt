-- `Inside`: bytes that are taken hold every header and table. `Writer`: which lists the writer takes, and the page that it lays. `Back`: what the writer lays is
-- read back. `Promises`: what specs/Promises.antt states.
pub mod Inside
pub mod Writer
pub mod Back
pub mod Promises
