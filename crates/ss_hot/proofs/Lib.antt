pub mod EachReading
mod Early
pub mod Faults
pub mod Grown
mod Misfits
mod Opened
mod Passed
pub mod Places
mod PutReadings
pub mod Readings
pub mod Reopened
pub mod Settings
mod Sizes
mod Writes
