pub mod Numbers
pub mod Reasons
pub mod FirstFaults
pub mod Modes
pub mod Fitting
