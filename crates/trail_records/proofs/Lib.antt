pub mod RowLemmas
pub mod Weights
