pub mod LastWriters
pub mod Noting
pub mod Places
pub use Rattle.table_state.specs.tier_base
pub use Rattle.table_state.specs.row_types
pub use Rattle.table_state.specs.table_defs
pub use Rattle.table_state.specs.indexed_rows
pub use Rattle.table_state
