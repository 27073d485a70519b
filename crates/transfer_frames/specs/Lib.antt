pub mod Causes
pub mod Numbers
pub mod Grammar
pub mod Faults
pub mod Front
pub mod Laws
pub mod FrameLines
