pub mod SetBits
pub mod Rows
