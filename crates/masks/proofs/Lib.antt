pub mod Codes
pub mod Lift
pub mod Pick
pub mod RowDigits
