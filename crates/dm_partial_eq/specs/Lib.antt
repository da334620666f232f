pub mod Checks
pub mod Direct
pub mod Heads
pub mod Emitted
pub mod Expanded
pub mod Printed
