pub mod BySteps
pub mod ByColumns
