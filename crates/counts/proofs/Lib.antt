pub mod Small
pub mod Taken
pub mod Worked
