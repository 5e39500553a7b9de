-- What the contracts of inner functions cite. Public contracts cite none of it.
pub mod Search
pub mod Walk
pub mod Counted
