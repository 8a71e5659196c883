pub mod Shown
pub mod Sheets
pub mod Timely
pub mod Calls
pub mod Runs
pub mod Lent
