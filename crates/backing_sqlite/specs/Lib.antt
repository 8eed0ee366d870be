pub mod Counting
pub mod Untold
pub mod Waiting
