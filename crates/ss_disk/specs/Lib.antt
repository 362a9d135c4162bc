pub mod FolderDisk
pub mod Memory
pub mod MemoryDisk
pub mod MemoryLaws
pub use Rattle.ss_device.specs.Disk
pub use Rattle.ss_device.specs.Calls
