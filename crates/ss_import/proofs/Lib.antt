mod Cars
mod Puts
mod Replies
mod Putting
mod Kept
pub mod Small
mod Unsound
mod Fronts
mod Ends
mod Steps
pub mod Counted
pub mod Complete
