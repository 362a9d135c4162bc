pub mod Each
pub mod Heads
pub mod Kept
mod Proper
pub mod Need
pub mod Members
pub mod Meeting
pub mod Searching
pub mod Placing
pub mod Listing
