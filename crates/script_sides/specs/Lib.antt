pub mod Halves
pub mod Sided
pub mod Ready
pub mod Answering
pub mod Giving
pub mod Takings
pub mod Linked
pub mod Progressing
