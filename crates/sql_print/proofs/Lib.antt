pub mod Members
pub mod NormalLaws
