pub mod Walks
pub mod Decided
