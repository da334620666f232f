pub mod Fronts
pub mod Places
pub mod Prelude
pub mod Reads
pub mod Repeating
pub mod ToEnd
pub mod Turns
