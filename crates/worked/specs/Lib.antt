pub mod Modules
pub mod Verdicts
pub mod Examples
