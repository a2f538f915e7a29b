pub mod Words
pub mod Leaving
pub mod Coded
