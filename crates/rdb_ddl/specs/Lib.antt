pub mod Place
pub mod Token
pub mod Grammar
pub mod Read
pub mod Cause
pub mod Canonical
