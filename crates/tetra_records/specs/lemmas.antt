-- Facts on the definitions of this crate, with their proofs, for the proofs here and in the crates above. No contract
-- cites them.
pub mod Lengths
pub mod Parts
