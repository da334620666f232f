pub mod Lists
pub mod RuleSteps
pub mod ArgumentSteps
