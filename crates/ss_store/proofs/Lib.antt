pub mod Appended
pub mod Faults
pub mod Maps
pub mod Pairs
pub mod Placing
pub mod Puts
pub mod TreeMap
