pub mod BarePaths
pub mod Bindings
pub mod Nests
pub mod Prelude
pub mod TypeReaders
pub mod WholeReaders
