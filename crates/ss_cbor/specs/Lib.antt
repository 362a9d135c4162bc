pub use Rattle.ss_cid.specs.Cid
pub use Rattle.ss_cid.specs.Steps
pub mod Item
pub mod Reading
pub mod Fault
pub mod Position
pub mod Part
pub mod Options
