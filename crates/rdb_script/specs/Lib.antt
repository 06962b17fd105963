pub mod Job
pub mod JobScripts
pub mod Lines
pub mod Schedule
pub mod Scripts
pub mod Statements
pub mod Stream
