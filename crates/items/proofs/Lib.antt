pub mod Reading
pub mod Decimal
pub mod Texts
pub mod Faults
pub mod Seven
pub mod Misfits
