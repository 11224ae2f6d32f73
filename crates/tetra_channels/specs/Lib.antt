pub mod Channels
pub mod Fields
pub mod Laws
pub mod Aliases
