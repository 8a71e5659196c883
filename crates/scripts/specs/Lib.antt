pub mod Lines
pub mod Fields
pub mod Reads
pub mod Dues
pub mod Agendas
