pub mod Actions
pub mod Rules
pub mod Rows
pub mod Forecasts
pub mod Openings
pub mod Figures
