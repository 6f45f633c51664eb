pub mod Sheet
pub mod Reading
pub mod Lift
pub mod Law
pub mod Worked
