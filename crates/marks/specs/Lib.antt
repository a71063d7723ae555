pub mod Endings
pub mod Finding
pub mod Spelling
pub mod Texts
