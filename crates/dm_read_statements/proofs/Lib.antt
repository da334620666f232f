pub mod GroupSteps
pub mod StatementSteps
