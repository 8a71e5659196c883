pub mod Summaries
pub mod Marking
pub mod Steps
pub mod Joined
pub mod Overs
