pub mod Rounds
pub mod Still
pub mod Marks
pub mod Carrying
pub mod Worked
pub mod Writing
