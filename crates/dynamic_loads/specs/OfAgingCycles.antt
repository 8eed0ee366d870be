-- What crates above name of `aging_cycles`.

pub use Rattle.group_engine.specs.OfAgingCycles.Ages
