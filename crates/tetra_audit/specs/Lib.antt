pub mod Agreement
pub mod Claims
pub mod Fields
pub mod Pairs
pub mod Parts
pub mod Verdicts
