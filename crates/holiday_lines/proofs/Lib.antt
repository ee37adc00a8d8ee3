pub mod Parts
pub mod Gathered
pub mod Named
pub mod Lawful
