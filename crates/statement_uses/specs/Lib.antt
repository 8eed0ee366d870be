pub mod Keys
pub mod Loading
pub mod Touching
pub mod Uses
pub mod Wanting
