pub mod Progress
pub mod Queue
pub mod Registers
pub mod Shown
pub mod Watching
