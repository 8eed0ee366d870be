pub mod FittingLaws
pub mod FoldLaws
pub mod NamingLaws
pub mod OrderLaws
