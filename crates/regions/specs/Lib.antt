pub mod Rows
pub mod Views
