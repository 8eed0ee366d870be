pub mod ChainMeasures
pub mod Chains
pub mod Columns
pub mod Puts
