pub mod Lists
pub mod Alive
pub mod Passes
pub mod Steps
pub mod Run
pub mod Unique
pub mod Stacks
