pub mod JudgeLaws
pub mod LockLaws
pub mod NameLaws
pub mod PrepareLaws
pub mod RouteLaws
