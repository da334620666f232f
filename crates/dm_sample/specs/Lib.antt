pub mod Samples
pub mod Summaries
