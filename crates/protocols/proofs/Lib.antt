pub mod Decimals
pub mod HexDigits
pub mod Parting
pub mod Spelling
pub mod Whole
pub mod Turns
pub mod Firsts
pub mod Arrays
