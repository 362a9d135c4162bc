pub mod Asked
pub mod Fault
pub mod Fields
pub mod Script
pub mod Text
pub mod Views
