pub mod Trees
pub mod Reach
pub mod View
pub mod Meeting
pub mod Code
pub mod Lending
