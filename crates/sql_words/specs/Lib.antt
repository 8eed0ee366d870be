pub mod Words
pub mod Trees
pub mod Tables
pub mod NormalTables
pub use Rattle.sql_phrases.specs.expressions
