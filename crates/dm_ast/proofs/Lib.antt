pub mod Idents
pub mod Split
pub mod View
