-- Text as hosts write it: its words, numbers and lists of them; lines and columns.
pub mod Bytes
pub mod Lists
pub mod Numbers
pub mod Places
