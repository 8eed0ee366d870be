pub mod Spelling
pub mod Reading
pub mod Writing
pub mod Bodies
pub mod Sizes
