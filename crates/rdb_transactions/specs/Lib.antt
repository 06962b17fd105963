pub mod Hands
pub mod Records
pub mod Phases
pub mod Claims
pub mod Sound
pub mod Moves
