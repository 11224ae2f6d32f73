-- Facts on the definitions of this crate, with their proofs, for the proofs here and in the crates above. No contract
-- cites them.
pub mod Arrives
pub mod Depths
pub mod Kept
pub mod Rings
pub mod Within
