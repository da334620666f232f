pub mod Items
pub mod Expanded
