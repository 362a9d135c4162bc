mod Links
mod Lengths
mod Headers
mod Bodies
pub mod Readings
pub mod Sections
mod Written
