pub mod Places
pub mod Append
