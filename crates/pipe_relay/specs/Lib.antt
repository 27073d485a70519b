pub mod Pipes
pub mod Sound
pub mod Answers
pub mod Rows
pub mod Laws
