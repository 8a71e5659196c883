pub mod Forecasts
pub mod Printed
