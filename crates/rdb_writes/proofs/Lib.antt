pub mod RecordLemmas
pub mod WorkLemmas
pub mod PlanLemmas
pub mod SeatLemmas
pub mod StepLemmas
pub mod ChangeLemmas
mod TestLemmas
