pub mod Heard
pub mod Meant
pub mod Lines
pub mod Passing
pub mod Report
pub mod Laws
