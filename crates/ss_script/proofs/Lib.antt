pub mod CidDigits
pub mod ClientViews
pub mod Decimals
pub mod Fields
pub mod Onward
pub mod Pairs
pub mod Parts
pub mod Splits
