pub mod Search
pub mod Polygon
pub mod Textbook
pub mod Objects
pub mod Moves
pub mod Codes
pub mod Census
pub mod Statements
