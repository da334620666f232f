pub mod Built
pub mod FrontKinds
pub mod Rounds
