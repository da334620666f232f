pub mod Inputs
pub mod Places
pub mod State
