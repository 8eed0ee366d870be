pub mod EnteredLaws
pub mod GroupLists
pub mod OpLaws
pub mod SelectedLaws
pub mod TouchLaws
pub mod UseLaws
pub mod WantLaws
