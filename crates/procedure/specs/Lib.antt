pub mod Preliminary
