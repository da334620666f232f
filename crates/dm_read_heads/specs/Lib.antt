pub mod Attrs
pub mod Heads
pub mod Named
pub mod Members
pub mod Signatures
