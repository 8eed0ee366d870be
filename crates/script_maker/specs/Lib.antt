pub mod Script
pub mod Giving
pub mod Making
