pub mod Judging
pub mod Bounds
