pub mod ArgReaders
pub mod Fronts
pub mod MetaReaders
pub mod Metas
