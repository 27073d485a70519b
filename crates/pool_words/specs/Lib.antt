pub mod History
pub mod Views
pub mod Pool
pub mod Laws
pub mod Sharing
