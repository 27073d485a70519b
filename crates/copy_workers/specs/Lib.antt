pub mod Copies
pub mod Hands
pub mod Notices
pub mod Crews
pub mod Laws
pub mod ComeBack
