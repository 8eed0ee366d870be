pub mod Arithmetic
pub mod Decimals
pub mod NumberTexts
pub mod Rounding
