pub mod Ceils
pub mod Boundaries
pub mod Rowing
pub mod Values
pub mod Lasting
pub mod Opens
