pub mod SendState
pub mod Treating
pub mod Stages
