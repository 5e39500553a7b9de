pub mod Lists
pub mod Tally
pub mod Compacting
pub mod Keeping
pub mod Tallying
