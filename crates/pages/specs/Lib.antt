pub mod Lines
pub mod Due
pub mod Turns
pub mod Left
