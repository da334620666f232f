pub mod Asked
pub mod Sizes
