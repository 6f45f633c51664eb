pub mod Decimals
pub mod Sizes
pub mod Texts
pub mod Decoding
pub mod Pairs
pub mod Reports
pub mod Whole
pub mod Worked
