pub mod Held
pub mod Messages
pub mod Numbers
pub mod Rests
pub mod Shifts
pub mod Sums
