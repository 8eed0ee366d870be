pub mod Fitting
pub mod Recalled
pub mod Steps
