pub mod SixteenLanes
pub mod SameRows
pub mod StepRules
pub mod Sums
pub mod Verdicts
pub mod Walked
pub mod WholeTable
