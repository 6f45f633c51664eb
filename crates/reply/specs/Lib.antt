pub mod Reply
pub mod Refusal
