pub mod NumberLaws
pub mod TypeLaws
