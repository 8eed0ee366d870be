pub mod Loop
pub mod Exact
pub mod Values
pub mod Entries
pub mod WritingLaws
pub mod BodyLaws
pub mod SizeLaws
