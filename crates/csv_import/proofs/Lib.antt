pub mod FieldLaws
pub mod ReadLaws
