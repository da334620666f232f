pub mod Cursors
pub mod LastAlone
pub mod Layout
pub mod Messages
pub mod Sizes
pub mod Texts
pub mod Trees
pub mod formers
