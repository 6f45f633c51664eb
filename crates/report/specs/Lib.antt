pub mod Report
pub mod Worked
