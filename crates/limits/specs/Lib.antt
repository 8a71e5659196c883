pub mod Ranges
pub mod Refusals
pub mod Checks
pub mod Tasks
