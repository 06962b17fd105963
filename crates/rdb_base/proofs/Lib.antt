pub mod FolderLemmas
pub mod OrderLemmas
