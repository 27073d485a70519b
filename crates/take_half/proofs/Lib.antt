pub mod FlowLemmas
pub mod PassLemmas
pub mod RecordLemmas
