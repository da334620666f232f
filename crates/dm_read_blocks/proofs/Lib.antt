pub mod ArmLists
pub mod ArmSteps
pub mod BlockLists
pub mod BlockSteps
