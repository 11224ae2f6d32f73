pub mod Fronts
pub mod Adding
pub mod Summing
pub mod Keeping
pub mod Passing
