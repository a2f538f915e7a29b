pub mod Appended
pub mod Texts
pub mod Written
