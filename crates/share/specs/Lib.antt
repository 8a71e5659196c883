pub mod Answers
pub mod Traces
pub mod Share
pub mod Plays
pub mod Examples
