pub mod Spelling
pub mod Layouts
pub mod Records
pub mod Buffers
pub mod Readings
pub mod Rooms
pub mod lemmas
