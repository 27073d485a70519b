pub mod Overwriting
pub mod LaneSteps
