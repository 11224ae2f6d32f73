pub mod Back
pub mod Followed
pub mod Shown
