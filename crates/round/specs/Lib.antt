pub mod Round
pub mod Choice
pub mod Share
pub mod Keep
pub mod Rows
pub mod Worked
pub mod Law
