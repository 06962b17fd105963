pub mod SightLemmas
pub mod BestLemmas
pub mod LatestLemmas
