pub mod Mother
pub mod Generators
pub mod lemmas
