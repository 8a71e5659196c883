pub mod Orders
pub mod Moves
pub mod Rise
pub mod Sorting
pub mod Firsts
