pub mod Sizes
pub mod Readings
pub mod Undamaged
pub mod NoneWrong
pub mod Plain
