mod ContainsLists
pub mod Counts
pub mod Entries
pub mod Lent
mod MentionsLists
mod Rows
pub mod Segments
pub mod Steps
