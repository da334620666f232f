pub mod Answering
pub mod PrintSteps
