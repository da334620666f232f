pub mod Cuts
pub mod Delims
pub mod Firsts
pub mod LastAlone
pub mod Sizes
pub mod Trees
