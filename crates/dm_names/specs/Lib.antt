pub mod NamePlaces
pub mod SeenNames
