pub mod BareTypeLevels
pub mod BareExprLevels
pub mod BareLevels
