pub mod Lines
pub mod Calls
pub mod Early
