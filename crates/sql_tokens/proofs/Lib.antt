pub mod Letters
pub mod Ranges
pub mod Bytes
pub mod Spelling
