pub mod Sorts
pub mod ExprNests
pub mod Turns
