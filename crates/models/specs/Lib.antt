pub mod Models
pub mod Rules
