pub mod Indexes
pub mod Rows
pub mod Places
pub use Rattle.row_types.specs.numbers
pub use Rattle.row_types.specs.tier_base
pub use Rattle.row_types
