pub mod Numbers
pub mod Fronts
pub mod Cuts
pub mod Coming
