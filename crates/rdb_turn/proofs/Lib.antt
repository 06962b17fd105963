pub mod Beginnings
pub mod Parts
pub mod Sums
pub mod Agreeing
pub mod Kept
pub mod Passing
pub mod Counting
