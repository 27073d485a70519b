pub mod Interfaces
pub mod Laws
pub mod Messages
pub mod Places
pub mod Rows
pub mod Table
pub mod Ways
