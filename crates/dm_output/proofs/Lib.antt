pub mod View
mod Rows
