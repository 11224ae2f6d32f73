pub mod Block
pub mod Laws
pub mod Matrix
pub mod Placed
pub mod Steps
pub mod lemmas
