pub mod ChildLaws
pub mod DeletionLaws
pub mod DifferLaws
pub mod PathLaws
pub mod ReferLaws
pub mod StandLaws
pub mod TouchLaws
pub mod TransactionLaws
