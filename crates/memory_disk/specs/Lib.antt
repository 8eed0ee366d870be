pub mod Images
pub mod Possible
pub mod DiskLaws
pub mod Picking
