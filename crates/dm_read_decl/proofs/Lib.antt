pub mod WholeSteps
pub mod WordRanges
