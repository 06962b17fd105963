pub mod Block
pub mod BlockLends
pub mod Pages
pub mod RawPages
