pub mod Depths
pub mod Fitted
pub mod FittedExprs
pub mod FittedItems
