pub mod Printed
pub mod Spelling
pub mod SpelledValues
pub mod FirstSigns
