pub mod Meaning
pub mod Shrinking
