pub mod StageLemmas
pub mod GoesLemmas
pub mod PlanLemmas
pub mod PassLemmas
pub mod TurnLemmas
