pub mod JobLemmas
pub mod RunLemmas
pub mod SlotLemmas
pub mod WordLemmas
