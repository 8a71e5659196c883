pub mod Kinds
pub mod Numbers
pub mod Records
pub mod Plans
pub mod Faults
pub mod Steps
pub mod Reads
pub mod Listing
