pub mod Counts
pub mod Pieces
pub mod Lines
pub mod Kept
pub mod MemoryForms
pub mod Storing
pub mod KeptLaws
