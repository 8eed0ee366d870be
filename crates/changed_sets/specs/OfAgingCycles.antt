-- What crates above name of `aging_cycles`.

pub use Rattle.aging_cycles.proofs.Behind
pub use Rattle.aging_cycles.proofs.KeyLists
pub use Rattle.aging_cycles.proofs.LeftRows
pub use Rattle.aging_cycles.proofs.RootRows
pub use Rattle.aging_cycles.proofs.RowsOf
pub use Rattle.aging_cycles.proofs.Shows
pub use Rattle.aging_cycles.proofs.Walks
pub use Rattle.aging_cycles.specs.Ages
pub use Rattle.aging_cycles.specs.Coming
pub use Rattle.aging_cycles.specs.Fitting
pub use Rattle.aging_cycles.specs.Running
