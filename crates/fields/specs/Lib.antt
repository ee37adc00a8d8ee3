pub mod Fields
pub mod Forms
pub mod Backs
pub mod Firsts
