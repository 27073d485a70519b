pub mod Passages
pub mod TakeState
pub mod Accepting
pub mod Receipts
