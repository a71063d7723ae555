pub mod Cards
pub mod Code
pub mod Compile
pub mod Checked
pub mod Steps
pub mod Runs
pub mod Written
