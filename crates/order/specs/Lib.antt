pub mod Walk
pub mod Orders
pub mod inner
