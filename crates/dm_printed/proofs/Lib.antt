pub mod Reading
pub mod Deriving
pub mod Counting
