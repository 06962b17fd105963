pub mod Grounds
pub mod Steps
pub mod Changes
