pub mod Codes
pub mod Labels
pub mod Limits
pub mod Names
