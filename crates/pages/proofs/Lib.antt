pub mod Listed
pub mod Places
pub mod Turned
pub mod Passing
pub mod Paging
pub mod Onward
