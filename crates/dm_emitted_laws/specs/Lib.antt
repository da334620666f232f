pub mod Parts
pub mod Ready
pub mod Spellable
pub mod Printable
