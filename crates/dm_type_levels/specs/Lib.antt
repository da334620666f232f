pub mod Passing
pub mod TypeLevels
pub mod Marks
