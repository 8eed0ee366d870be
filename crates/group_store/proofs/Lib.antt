mod ByUseLaws
mod ChildLaws
mod ClearLaws
pub mod CommitLaws
mod EnterLaws
pub mod FormLaws
pub mod HeldLaws
mod HidingLaws
pub mod HomeLaws
mod JoinedLaws
mod KeepingLaws
mod OnceLaws
mod PassingLaws
mod PutLaws
mod RecentLaws
mod RenewLaws
pub mod RootLaws
mod RunLaws
mod StoreLaws
mod TreeLaws
