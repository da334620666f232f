pub mod Insides
pub mod Levels
pub mod Refusals
pub mod Sequels
