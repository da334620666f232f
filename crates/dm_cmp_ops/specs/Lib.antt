pub mod Expanded
pub mod Families
