pub mod Steps
pub mod Varint
pub mod Cid
pub mod Base32
pub mod Text
pub mod Parcel
pub mod Maps
