pub mod Objects
pub mod Slots
pub mod Changes
pub mod Walks
pub mod Chains
pub mod Order
