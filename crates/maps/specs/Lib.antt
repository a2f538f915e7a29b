pub mod Touch
pub mod Views
