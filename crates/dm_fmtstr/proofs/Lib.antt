pub mod Arguments
mod Examples
pub mod Fronts
pub mod Placing
pub mod Shorter
pub mod Specs
pub mod Strings
