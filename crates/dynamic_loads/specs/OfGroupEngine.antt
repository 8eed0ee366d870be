-- What crates above name of `group_engine`.

pub use Rattle.group_engine.proofs.RefreshedSets
pub use Rattle.group_engine.proofs.TriedLaws
