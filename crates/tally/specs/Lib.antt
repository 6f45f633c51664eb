pub mod Rounds
pub mod Verdict
pub mod Tables
pub mod Law
pub mod Worked
