pub mod EditLemmas
pub mod EndingLemmas
pub mod OpeningLemmas
pub mod PhaseLemmas
pub mod SoundLemmas
