pub mod Histories
pub mod Seats
pub mod Shared
pub mod Steps
pub mod Meetings
pub mod Known
pub mod Rows
pub mod Stretches
