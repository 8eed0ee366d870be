pub mod Answering
pub mod Judging
pub mod Preparing
pub mod Replies
pub mod Routing
pub mod Seen
pub mod Sights
