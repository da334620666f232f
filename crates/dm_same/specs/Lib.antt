pub mod SameTypes
pub mod Shapes
