pub mod Easters
pub mod Rules
pub mod Words
