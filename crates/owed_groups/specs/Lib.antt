pub mod Lending
pub mod JobSteps
pub mod Outbox
pub mod Owing
pub mod Slots
