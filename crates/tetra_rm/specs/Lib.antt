pub mod Access
pub mod Code
pub mod Search
pub mod Turning
pub mod lemmas
