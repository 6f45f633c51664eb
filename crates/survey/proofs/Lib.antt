pub mod Searches
pub mod Surveys
pub mod Sheets
