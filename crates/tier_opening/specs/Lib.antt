pub mod Leaving
pub mod Opening
pub mod Telling
