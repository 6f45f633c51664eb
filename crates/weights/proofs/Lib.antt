pub mod Blocks
pub mod Rows
pub mod Scales
