pub mod Checked
pub mod Tables
pub mod Verdicts
pub mod lemmas
