pub mod Counts
pub mod Allowances
pub mod Reads
pub mod Writes
pub mod Dialling
pub mod MemoryEnds
pub mod Meetings
