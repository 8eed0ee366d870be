pub mod Journalled
pub mod Recalling
pub mod Reopening
pub mod SafeWays
