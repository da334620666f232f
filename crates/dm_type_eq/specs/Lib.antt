pub mod BareTokens
pub mod Spelled
pub mod Unplaced
