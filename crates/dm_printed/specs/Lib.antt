pub mod Traits
pub mod Texts
pub mod Answers
pub mod Derived
pub mod Counts
