-- Rows that refer to a key, as `table_state` defines them.

pub use Rattle.indexed_rows.specs.Rows.{first_from}
pub use Rattle.table_state.specs.Children.{refers_to, child_from}
