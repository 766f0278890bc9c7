pub mod Bytes
pub mod Memory
pub mod Stale
pub mod StaleMarks
