-- What crates above name of `aging_cycles`.

pub use Rattle.changed_sets.specs.OfAgingCycles.Coming
pub use Rattle.changed_sets.specs.OfAgingCycles.Fitting
pub use Rattle.changed_sets.specs.OfAgingCycles.RowsOf
pub use Rattle.changed_sets.specs.OfAgingCycles.Ages
