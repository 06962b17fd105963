pub mod CellLaws
pub mod Crossing
pub mod Deeds
pub mod Lending
pub mod Opened
pub mod Places
pub mod Regions
