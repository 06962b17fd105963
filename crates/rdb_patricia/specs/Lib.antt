pub mod Bits
pub mod Trie
pub mod Shape
pub mod Lookup
pub mod Walks
pub mod Changes
pub mod FewNodes
pub mod PatriciaLaws
