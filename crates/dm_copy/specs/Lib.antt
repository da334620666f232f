pub mod Replaced
pub mod Segments
pub mod Unreplaced
