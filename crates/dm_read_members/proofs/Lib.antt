pub mod CountSteps
pub mod MethodLists
pub mod MethodSteps
pub mod ItemLists
pub mod ItemSteps
