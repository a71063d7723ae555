pub mod Halting
pub mod Mapped
