pub mod Makings
pub mod Openings
