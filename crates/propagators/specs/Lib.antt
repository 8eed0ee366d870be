pub mod Rounds
pub mod Certainty
