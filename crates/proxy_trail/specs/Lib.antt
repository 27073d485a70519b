pub mod Recording
pub mod Kept
