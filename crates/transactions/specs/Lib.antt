pub mod Differing
pub mod Judging
pub mod Touching
pub mod Transactions
pub use Rattle.evaluator
