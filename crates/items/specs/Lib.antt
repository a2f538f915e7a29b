pub mod Numerals
pub mod Items
pub mod Lines
pub mod Texts
pub mod Faults
