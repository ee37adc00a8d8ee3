pub mod Firsts
pub mod Verdict
