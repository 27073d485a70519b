pub mod FrontLemmas
pub mod EntryLemmas
