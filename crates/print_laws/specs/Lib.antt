pub mod Laws
pub use Rattle.sql_print.specs.tier_base
pub use Rattle.sql_print.specs.row_types
pub use Rattle.sql_print.specs.sql_subset
