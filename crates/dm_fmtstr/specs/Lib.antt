pub mod Characters
pub mod Fronts
pub mod Grammar
pub mod Parts
pub mod Positions
