pub mod Sequence
pub mod Steps
pub mod Cuts
pub mod Turns
pub mod Accepts
pub mod Asks
pub mod Refuses
pub mod Enough
