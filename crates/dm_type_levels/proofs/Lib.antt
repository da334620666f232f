pub mod Grouped
pub mod PartPasses
pub mod PartSteps
pub mod Passes
pub mod TypePasses
pub mod TypeSteps
pub mod Marked
