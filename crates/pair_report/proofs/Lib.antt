pub mod FrameRows
pub mod Takings
pub mod FlowSteps
pub mod MirrorSteps
pub mod Printable
pub mod LinkWalk
pub mod Accepted
pub mod MeantLaws
