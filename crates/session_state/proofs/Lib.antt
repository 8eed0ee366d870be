pub mod ApartLaws
pub mod DefinedLaws
pub mod GrownLaws
pub mod HoldingLaws
pub mod KeptLaws
pub mod ListLaws
pub mod LockLaws
pub mod MeetingLaws
