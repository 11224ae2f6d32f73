pub mod Padding
pub mod SpeechPlaces
