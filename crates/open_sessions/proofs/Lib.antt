mod GrownLaws
pub mod LookupLaws
mod SessionLaws
