pub mod Loading
pub mod Replaying
pub mod Standing
pub mod Striking
