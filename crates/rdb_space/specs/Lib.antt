pub mod Claim
pub mod Bits
pub mod PageSet
pub mod Space
pub mod Tables
pub mod Heads
pub mod Memory
