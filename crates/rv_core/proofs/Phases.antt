-- The other phases, each on all parts, and the whole cycle.
pub mod Cycle
pub mod Drained
pub mod Entered
pub mod Fetched
pub mod InFlight
pub mod Numbered
pub mod Steps
pub mod Stored
pub mod Turned
