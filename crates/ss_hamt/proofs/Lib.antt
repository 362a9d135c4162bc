pub mod Groups
pub mod Buckets
pub mod Nodes
pub mod Looking
pub mod Answering
pub mod Listed
pub mod Walking
pub mod Agreeing
