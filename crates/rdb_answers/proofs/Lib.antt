pub mod CallLemmas
pub mod CommitLemmas
