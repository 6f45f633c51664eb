pub mod WeightSums
pub mod Keyfitz
pub mod Initials
pub mod Preliminaries
pub mod Shares
pub mod Keeping
pub mod Laws
pub mod Worked
