pub mod OwnWrites
pub mod Hands
pub mod Seats
pub mod Registry
pub mod Kept
pub mod SlotLending
pub mod Lending
