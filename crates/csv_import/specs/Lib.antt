pub mod Inserts
pub mod Reading
pub use Rattle.evaluator.specs.tier_base
pub use Rattle.evaluator.specs.row_types
pub use Rattle.evaluator.specs.table_defs
pub use Rattle.evaluator
