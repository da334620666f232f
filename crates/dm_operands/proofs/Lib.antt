pub mod FromLaws
pub mod NameLaws
pub mod BindingLaws
pub mod ArmLaws
pub mod FirstLaws
pub mod PlaceLaws
pub mod ReadNames
