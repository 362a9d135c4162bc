pub mod Car
pub mod HeaderReading
pub mod Bodies
pub mod Writing
