-- Facts on the definitions of this crate, with their proofs, for the proofs here and in the crates above. No contract
-- cites them, but for a struct that keeps valid settings.
pub mod Valid
pub mod Drawing
pub mod Fitting
pub mod Turning
