pub mod Fulfilled
pub mod Still
pub mod Stories
