pub mod Marks
pub mod Rows
pub mod Index
pub mod Sound
