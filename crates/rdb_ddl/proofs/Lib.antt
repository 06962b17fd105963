pub mod Trivia
pub mod Reading
pub mod OneAnswer
pub mod Spellings
pub mod CanonicalTexts
pub mod Shapes
pub mod RoundTrip
pub mod ShortTexts
