pub mod Years
pub mod Months
pub mod Turns
pub mod Counts
