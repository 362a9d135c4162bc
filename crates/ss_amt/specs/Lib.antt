pub mod Node
pub mod Paths
pub mod Walks
