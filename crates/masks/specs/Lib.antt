pub mod Codes
pub mod Family
pub mod Pick
