pub mod Dates
pub mod Made
pub mod Weeks
pub mod Kinds
