pub mod Registers
pub mod Words
pub mod Layout
pub mod Faults
