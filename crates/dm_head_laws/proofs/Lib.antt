pub mod HeadParts
pub mod Flat
pub mod WordPaths
pub mod NamedTypes
pub mod DeclaredParts
