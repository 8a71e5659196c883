pub mod Orders
pub mod Heaps
pub mod Held
pub mod Answers
pub mod Sorted
