pub mod Colour
pub mod Key
pub mod Register
pub mod Flips
pub mod lemmas
