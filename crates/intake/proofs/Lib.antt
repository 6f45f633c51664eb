pub mod Numbers
pub mod Texts
pub mod Finding
pub mod Measures
pub mod Renewing
pub mod Taking
