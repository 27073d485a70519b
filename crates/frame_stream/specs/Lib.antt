pub mod Stream
pub mod Listing
