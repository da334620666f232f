pub mod ReadSteps
pub mod PrintedBack
