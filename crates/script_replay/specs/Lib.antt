pub mod Telling
pub mod Standing
pub mod Going
pub mod Sending
pub mod Coming
pub mod Settling
pub mod Playing
pub mod Outcome
