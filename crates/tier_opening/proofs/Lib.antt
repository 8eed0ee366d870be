pub mod BeginLaws
pub mod FoundLaws
pub mod KeepLaws
pub mod LeftLaws
pub mod NewLaws
pub mod PartLaws
