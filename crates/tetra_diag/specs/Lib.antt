pub mod Diagonal
pub mod Ring
pub mod Arrives
pub mod FromLast
pub mod lemmas
