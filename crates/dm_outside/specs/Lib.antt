pub mod Causes
pub mod Exits
pub mod Offers
pub mod States
pub mod Transfers
