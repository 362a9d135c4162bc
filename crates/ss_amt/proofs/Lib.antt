pub mod Widths
pub mod Nodes
pub mod Looking
pub mod Answering
pub mod Taken
pub mod Listed
pub mod Walking
pub mod Agreeing
