pub mod Calls
pub mod Model
pub mod Places
pub mod Refusals
pub mod Replay
pub mod Since
