pub mod Fixing
pub mod Layouts
