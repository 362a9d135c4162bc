pub mod Bytes
pub mod Lists
pub mod Logs
mod Pieces
pub mod Readers
pub mod Steps
mod Walks
