pub mod Rounds
pub mod Choosing
