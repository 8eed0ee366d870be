pub mod ChildLaws
pub mod FollowLaws
pub mod Gathering
pub mod InstanceLaws
pub mod OnlyLaws
