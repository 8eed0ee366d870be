pub mod Declarations
pub mod Names
pub use Rattle.row_types.specs.tier_base
pub use Rattle.row_types
