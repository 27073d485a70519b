pub mod Answering
pub mod Entries
pub mod ObjectLaws
pub mod Registry
pub mod Tracking
