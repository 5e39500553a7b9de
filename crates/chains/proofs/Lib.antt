pub mod Firsts
pub mod Steps
pub mod Appending
pub mod Lists
pub mod Example
pub mod Searching
pub mod Hops
