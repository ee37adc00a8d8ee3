pub mod Searches
pub mod Judging
