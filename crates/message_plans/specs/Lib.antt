pub mod Blocks
pub mod Making
pub mod Plans
pub mod Telling
