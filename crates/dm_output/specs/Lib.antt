pub mod Output
pub mod Views
pub mod Values
pub mod Fits
pub mod Written
pub mod Calls
pub mod Run
pub mod Tokens
