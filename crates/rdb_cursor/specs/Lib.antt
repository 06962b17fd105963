pub mod Views
pub mod Seeks
pub mod Clashes
pub mod Replies
