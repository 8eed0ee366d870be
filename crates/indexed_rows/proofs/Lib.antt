pub mod CopyLaws
pub mod EntryLaws
pub mod FirstLaws
pub mod IndexLaws
pub mod ParentLaws
pub mod Sorted
pub mod MapLaws
