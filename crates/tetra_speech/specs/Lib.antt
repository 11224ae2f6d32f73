pub mod Classes
pub mod Frames
pub mod Words
pub mod Reading
pub mod Laws
pub mod lemmas
