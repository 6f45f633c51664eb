pub mod Next
pub mod Reply
pub mod Law
pub mod Worked
