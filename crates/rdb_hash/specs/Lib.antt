pub mod Shape
pub mod FewNodes
pub mod HashLaws
pub mod Lookup
pub mod Walks
pub mod Changes
