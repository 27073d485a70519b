pub mod Lists
pub mod Leaving
pub mod Giving
