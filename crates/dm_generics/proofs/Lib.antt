pub mod NumeralLaws
pub mod Builders
pub mod ParameterSteps
pub mod AdditionSteps
pub mod NumberedSteps
pub mod Rows
