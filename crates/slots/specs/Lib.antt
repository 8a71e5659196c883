pub mod Slots
pub mod Marks
pub mod Checks
pub mod Steps
pub mod Members
pub mod Advances
pub mod Figures
