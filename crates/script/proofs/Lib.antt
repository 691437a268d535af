pub mod HexLaws
pub mod ReadLaws
pub mod Decimal
pub mod Agree
