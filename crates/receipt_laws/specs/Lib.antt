pub mod Owning
pub mod Lending
pub mod OwnLaws
pub mod OutLaws
