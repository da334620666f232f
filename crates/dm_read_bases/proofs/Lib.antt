pub mod TupleSteps
pub mod BaseSteps
pub mod MacroSteps
