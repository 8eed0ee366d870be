pub mod Passes
pub mod Places
pub mod Turns
