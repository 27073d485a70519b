pub mod LaneLemmas
pub mod WalkLemmas
pub mod TrailLemmas
