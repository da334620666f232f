pub mod Rows
pub mod Macros
