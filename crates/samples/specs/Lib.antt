pub mod Sample
pub mod Broken
