pub mod Tables
pub mod Bits
pub mod Ranges
pub mod Sending
pub mod Adding
pub mod Numbers
pub mod Verdicts
pub mod Worked
