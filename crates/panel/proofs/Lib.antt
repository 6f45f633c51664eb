pub mod Tabled
pub mod Pairs
pub mod Answers
pub mod Carried
pub mod Nexts
