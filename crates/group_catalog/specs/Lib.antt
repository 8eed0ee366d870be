pub mod Arguments
pub mod Catalogs
pub mod Filtered
pub mod Identified
pub mod Kept
pub mod Placed
pub mod ReadBack
pub mod Sound
