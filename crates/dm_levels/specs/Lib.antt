pub mod Behind
pub mod Levels
pub mod Low
