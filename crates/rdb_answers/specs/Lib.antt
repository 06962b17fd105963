pub mod Callers
pub mod Begin
pub mod Leave
pub mod Ends
pub mod Watching
pub mod Standings
