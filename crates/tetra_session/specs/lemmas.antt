-- Facts on the definitions of this crate, with their proofs, for the proofs here and in the crates above. No contract
-- cites them, but for a struct that keeps valid settings.
pub mod Valid
pub mod Picked
pub mod FourSteps
pub mod Idle
pub mod Same
pub mod Places
pub mod Values
pub mod Spread
pub mod Plans
pub mod NoneWrong
pub mod Fields
pub mod Written
