pub mod Contains
pub mod Inner
pub mod Inside
pub mod Mentions
pub mod Parameters
pub mod Tuples
pub mod Uses
