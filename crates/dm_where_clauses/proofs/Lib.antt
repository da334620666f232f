pub mod Needing
pub mod ClauseSteps
