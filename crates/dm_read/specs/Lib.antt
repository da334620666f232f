pub mod DeclarationReaders
pub mod Deep
pub mod Links
pub mod Stops
pub mod Words
