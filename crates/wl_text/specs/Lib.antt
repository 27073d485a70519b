pub mod Answers
pub mod ArgReading
pub mod ArgTexts
pub mod Decimals
pub mod Enclosed
pub mod Front
pub mod Text
pub mod TextLaws
