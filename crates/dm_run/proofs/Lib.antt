pub mod Lines
pub mod RunLemmas
pub mod Sampling
pub mod Ending
