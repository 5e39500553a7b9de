pub mod Labels
pub mod inner
