pub mod Run
pub mod PathAccount
pub mod Marking
pub mod OnPath
pub mod Marker
