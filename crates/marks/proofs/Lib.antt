pub mod RoundTrip
pub mod Writes
pub mod Opens
pub mod Told
