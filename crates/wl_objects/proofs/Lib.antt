pub mod Parts
mod Room
pub mod Rows
pub mod Shown
mod Versions
pub mod WholeShown
