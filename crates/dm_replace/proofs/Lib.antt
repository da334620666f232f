pub mod DeclaredArguments
mod Rows
pub mod SpelledParams
pub mod Twice
