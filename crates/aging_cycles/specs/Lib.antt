pub mod Ages
pub mod Busy
pub mod Coming
pub mod Cycles
pub mod Fitting
pub mod Running
pub mod Walking
