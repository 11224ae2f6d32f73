pub mod Words
pub mod Made
pub mod Damaged
pub mod lemmas
