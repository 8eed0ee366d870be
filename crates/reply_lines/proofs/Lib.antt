pub mod DigitLaws
pub mod FlatMaps
pub mod OutputLaws
