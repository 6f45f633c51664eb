pub mod Draws
pub mod Exactly
pub mod Runs
pub mod Positions
pub mod After
pub mod Worked
