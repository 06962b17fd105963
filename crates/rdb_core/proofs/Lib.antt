pub mod MovedLemmas
pub mod SessionLemmas
pub mod EventLemmas
pub mod ClosingLemmas
pub mod ComesLemmas
pub mod CommitLemmas
pub mod LookLemmas
