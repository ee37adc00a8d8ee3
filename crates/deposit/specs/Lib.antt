pub mod Deposit
pub mod Codes
pub mod Tables
