pub mod Adding
pub mod Appending
pub mod DeclarationLists
pub mod EmitArguments
pub mod EmitLater
pub mod EmitSteps
