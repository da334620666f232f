pub mod Copies
pub mod Known
pub mod Parts
pub mod Replacing
pub mod Shown
