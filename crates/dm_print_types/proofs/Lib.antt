pub mod Laying
pub mod Qualified
