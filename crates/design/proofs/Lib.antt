pub mod Words
pub mod Replacing
pub mod Applying
pub mod Examples
