pub mod OwnLemmas
pub mod WireLemmas
pub mod PeerLemmas
pub mod Unsettled
pub mod Behind
pub mod Keeping
pub mod Fills
