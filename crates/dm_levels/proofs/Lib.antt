pub mod ExprPasses
pub mod Following
