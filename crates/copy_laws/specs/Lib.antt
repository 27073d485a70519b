pub mod Given
pub mod GivenLaws
