pub mod DeclaredPlaces
pub mod NameChecks
pub mod NamePlaces
pub mod NameRefusals
pub mod OwnNames
pub mod PlaceSteps
pub mod RepeatedNames
pub mod SeenSteps
