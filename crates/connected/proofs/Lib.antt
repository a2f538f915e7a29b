pub mod Subsets
pub mod Chains
pub mod Flooding
pub mod Decided
pub mod Removal
pub mod Turned
pub mod Laws
pub mod Members
