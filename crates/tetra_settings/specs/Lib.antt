pub mod Values
pub mod Keys
pub mod Words
pub mod Faults
pub mod Validity
pub mod Slots
pub mod Blocks
pub mod Readings
