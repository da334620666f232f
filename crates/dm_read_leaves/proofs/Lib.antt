pub mod TypeSteps
pub mod PathSteps
