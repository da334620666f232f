pub mod Needed
pub mod Covering
pub mod RightSide
