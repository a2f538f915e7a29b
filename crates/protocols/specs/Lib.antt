pub mod Values
pub mod Requests
pub mod Reading
pub mod Laws
pub mod Words
pub mod Views
