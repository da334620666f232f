pub mod MadeLaws
pub mod Patterns
mod ParamSteps
