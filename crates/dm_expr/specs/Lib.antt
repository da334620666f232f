pub mod Cuts
pub mod Reach
pub mod Lists
