pub mod Stepping
pub mod Cutting
