pub mod Ends
pub mod Pairs
pub mod Queued
pub mod Machine
pub mod Views
pub mod Laws
