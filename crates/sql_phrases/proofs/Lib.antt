pub mod Chains
pub mod Shrinking
pub mod Predicates
