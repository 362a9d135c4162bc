pub mod Plan
pub mod Meta
pub mod Opening
