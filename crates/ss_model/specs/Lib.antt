pub mod State
pub mod Head
pub mod Lawful
pub mod Met
