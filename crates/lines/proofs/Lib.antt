pub mod Decimal
pub mod Examples
