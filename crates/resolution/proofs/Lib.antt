pub mod ArrangingLaws
pub mod ChainLaws
pub mod ChainMeasures
mod JoinLaws
mod LiteralLaws
pub mod PairLaws
pub mod QueryLaws
mod ScopeLaws
mod SoundLaws
pub mod TypeLaws
mod WriteLaws
