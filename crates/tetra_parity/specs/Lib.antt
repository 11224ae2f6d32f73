pub mod Marks
pub mod Parity
pub mod Register
pub mod lemmas
