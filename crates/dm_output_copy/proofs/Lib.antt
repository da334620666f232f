pub mod Copies
pub mod ItemCopies
pub mod CallCopies
