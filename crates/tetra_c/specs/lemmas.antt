-- Facts on the definitions of this crate, with their proofs. No contract cites them.
pub mod IdleBlocks
pub mod IdleWords
