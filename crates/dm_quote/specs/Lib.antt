pub mod Appends
pub mod Separators
