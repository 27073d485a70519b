pub mod Sizes
pub mod Mirrors
pub mod Answers
pub mod Meaning
pub mod Laws
