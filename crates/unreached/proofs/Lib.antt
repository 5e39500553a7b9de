pub mod Passes
pub mod Complete
pub mod Merging
pub mod Void
pub mod Rewriting
pub mod Tickets
pub mod Examples
