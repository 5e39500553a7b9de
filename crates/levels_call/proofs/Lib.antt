pub mod Stimulus
pub mod Outputs
pub mod Answering
