pub mod Agreeing
pub mod Folding
pub mod Once
pub mod OnceSteps
pub mod SkipSteps
