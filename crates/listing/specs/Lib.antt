-- Instructions, cards and modules as a person reads them.
pub mod Blocks
pub mod Lines
