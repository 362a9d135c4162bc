pub mod Half
pub mod Store
pub mod Opening
