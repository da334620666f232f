pub mod RunSteps
pub mod FormatLists
pub mod FormatSteps
