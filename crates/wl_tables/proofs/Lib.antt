mod Naming
mod Distinct
pub mod Ways
