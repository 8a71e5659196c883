pub mod Words
pub mod Servers
