pub mod Answers
pub mod Walk
pub mod Read
pub mod Places
