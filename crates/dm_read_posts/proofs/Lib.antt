pub mod PostLists
pub mod PostSteps
pub mod Applying
