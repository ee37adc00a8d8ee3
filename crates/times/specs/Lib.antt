pub mod Moments
pub mod Sums
