pub mod Absorbing
pub mod Digests
pub mod Words
