pub mod Rules
pub mod ShapeViews
