pub mod Owning
pub mod Holding
pub mod Wires
pub mod Fronts
pub mod Putting
pub mod Peers
pub mod Scripts
pub mod Laws
