pub mod Trips
pub mod Walks
pub mod Legibility
pub mod Worked
