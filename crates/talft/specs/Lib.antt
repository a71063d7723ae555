-- The calls that a script makes.
pub mod Acts
