pub mod Blake2b
pub mod State
pub mod Digest
pub use Rattle.sha2.specs.Sha256
pub use Rattle.ss_cid.specs.Cid
