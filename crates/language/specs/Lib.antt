pub mod Plans
pub mod Meaning
pub mod Limits
pub mod Laws
pub mod Sample
