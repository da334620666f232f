pub mod ChainLaws
pub mod PartialEqLaws
pub mod CheckLaws
mod PrintLaws
pub mod Expansions
