pub mod Pieces
pub mod Undamaged
pub mod Sent
pub mod Readings
pub mod Sortings
