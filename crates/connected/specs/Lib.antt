pub mod Connected
pub mod Sets
pub mod Textbook
