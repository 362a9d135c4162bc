pub mod Ones
pub mod Rows
pub mod Visiting
pub mod Naming
pub mod Members
