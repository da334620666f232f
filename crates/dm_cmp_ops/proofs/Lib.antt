pub mod PlainFields
pub mod ReadBack
pub mod Answering
