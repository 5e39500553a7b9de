-- What the contracts of inner functions cite. Public contracts cite none of it.
pub mod Search
