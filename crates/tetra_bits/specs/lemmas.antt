-- Facts on the definitions of this crate, with their proofs, for the proofs here and in the crates above. No contract
-- cites them.
pub mod Best
pub mod Digits
pub mod InPlace
pub mod Packing_lists
pub mod Signs
pub mod Within
pub mod Written
