pub mod Links
pub mod Journeys
