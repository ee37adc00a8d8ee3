pub mod Agrees
pub mod Exact
pub mod Onward
