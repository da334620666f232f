pub mod Unread
pub mod WritableBack
pub mod WrittenBack
