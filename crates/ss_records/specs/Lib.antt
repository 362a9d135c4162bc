pub mod Record
pub mod Fields
pub mod Places
pub use Rattle.ss_cid.specs.Cid
