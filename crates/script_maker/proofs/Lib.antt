pub mod GivingLaws
pub mod MakingLaws
pub mod CountLaws
