pub mod Text
pub mod Counts
pub mod Law
pub mod Worked
