pub mod Entries
pub mod Views
pub mod Meetings
pub mod Entering
pub mod Pairs
pub mod Blocks
