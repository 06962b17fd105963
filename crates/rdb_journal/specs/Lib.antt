pub mod Names
pub mod Operations
pub mod Replies
pub mod Lines
pub mod Endings
pub mod Report
