pub mod Faults
pub mod Parts
pub mod Rows
pub mod Write
