-- What crates above name of `tier_opening`.

pub use Rattle.tier_opening.proofs.LeftLaws
pub use Rattle.tier_opening.specs.Leaving
pub use Rattle.tier_opening.specs.Opening
pub use Rattle.tier_opening.specs.Telling
pub use Rattle.tier_opening.specs.declared
