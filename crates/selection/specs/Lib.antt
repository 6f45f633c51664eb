pub mod Choice
pub mod Initial
pub mod Fair
pub mod Worked
