pub mod Lookups
pub mod Opening
pub use Rattle.session_state.specs.own_rows
pub use Rattle.session_state
