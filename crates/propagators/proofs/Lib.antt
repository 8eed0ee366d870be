mod RoundSteps
mod LeftLaws
mod FollowLaws
pub mod CertainLaws
