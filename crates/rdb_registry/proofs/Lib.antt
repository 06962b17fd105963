pub mod SlotLemmas
pub mod KeptLemmas
pub mod OpeningLemmas
pub mod SpentLemmas
pub mod OwnLemmas
pub mod RecordLaws
