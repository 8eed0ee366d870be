pub mod Cases
pub mod Digits
pub mod LiteralLaws
pub mod OrderLaws
pub mod QuoteLemmas
pub mod TimeLaws
pub mod TimeLemmas
