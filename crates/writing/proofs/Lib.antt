pub mod Putting
pub mod Padding
