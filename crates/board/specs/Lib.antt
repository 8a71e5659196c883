pub mod Fits
pub mod Boards
