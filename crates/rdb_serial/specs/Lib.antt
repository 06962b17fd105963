pub mod Progress
pub mod Histories
pub mod Serial
pub mod Moves
