pub mod Draw
pub mod Run
pub mod Worked
