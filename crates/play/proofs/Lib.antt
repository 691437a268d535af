-- `Laws`: what is sent of a line, and what a line drives.
pub mod Laws
