pub mod Calls
pub mod Found
pub mod Held
pub mod LogFiles
pub mod Replies
pub mod Seen
pub mod StandsFor
