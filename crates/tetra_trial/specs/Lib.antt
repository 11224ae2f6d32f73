pub mod Fields
pub mod Columns
pub mod Loads
pub mod Sent
pub mod Kept
pub mod Tallies
pub mod Trials
pub mod Passage
