pub mod Leads
pub mod Orders
pub mod SlotKeys
pub mod Slots
pub use Rattle.indexed_rows.specs.tier_base
pub use Rattle.indexed_rows.specs.row_types
pub use Rattle.indexed_rows
