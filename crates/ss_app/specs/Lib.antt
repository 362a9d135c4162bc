pub mod Ending
pub mod Outcome
pub mod Progress
pub mod Words
pub mod World
