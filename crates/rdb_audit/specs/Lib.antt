pub mod Printed
pub mod Heads
pub mod Grammar
pub mod Verdicts
