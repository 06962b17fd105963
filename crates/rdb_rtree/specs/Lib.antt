pub mod Boxes
pub mod Trees
pub mod Standing
pub mod Nature
pub mod Lookups
pub mod Changes
pub mod RtreeLaws
