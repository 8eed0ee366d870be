pub mod KeyLaws
pub mod FormLaws
