mod Faults
mod Finding
mod Gets
mod HeadSteps
mod HotCount
mod Asked
pub mod Idle
pub mod Images
mod Judging
mod LogFiles
pub mod Made
mod Marked
mod NewPairs
mod PutBytes
mod PutSteps
mod Puts
mod Refusals
mod Repeats
pub mod Reopened
pub mod Settling
mod Stops
