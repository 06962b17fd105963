pub mod Sight
pub mod Garbage
pub mod Versions
