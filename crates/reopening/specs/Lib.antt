pub mod Building
pub mod Reloading
pub mod Starting
