pub mod Paschals
pub mod Falls
pub mod Exact
