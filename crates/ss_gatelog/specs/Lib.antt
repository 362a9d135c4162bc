pub mod Log
pub mod GateLog
pub mod Gate
pub use Rattle.ss_device.specs.Disk
pub use Rattle.ss_device.specs.Calls
