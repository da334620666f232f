pub mod Counting
pub mod Running
pub mod Reaching
pub mod Joining
