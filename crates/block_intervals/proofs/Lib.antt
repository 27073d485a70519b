pub mod RunLemmas
pub mod PlaceLemmas
pub mod SetLemmas
pub mod LawProofs
pub mod EndLemmas
