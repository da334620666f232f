pub mod PatternLists
pub mod PatternSteps
pub mod Nesting
