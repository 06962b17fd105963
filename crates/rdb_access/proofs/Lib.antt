pub mod Pairs
pub mod Walking
pub mod Reading
pub mod Decoding
pub mod Writing
pub mod Placing
pub mod Proper
