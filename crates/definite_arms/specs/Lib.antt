pub mod Arms
pub mod Definite
pub mod Taken
