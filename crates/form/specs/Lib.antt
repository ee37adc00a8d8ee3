pub mod Look
pub mod Words
