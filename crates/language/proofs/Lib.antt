pub mod Stopping
pub mod Lawful
pub mod Sampled
