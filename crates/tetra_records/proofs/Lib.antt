pub mod Fields
pub mod Pads
pub mod Made
pub mod Behind
pub mod Beginnings
pub mod Filled
pub mod Given
pub mod Rows
