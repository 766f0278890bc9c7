-- What ties the parts to the instructions in flight, part by part, through a dispatch, a broadcast and a squash.
pub mod Broadcast
pub mod Bus
pub mod Closed
pub mod Dispatch
pub mod Entries
pub mod Gathered
pub mod Queue
pub mod Registers
pub mod Renaming
pub mod Reset
pub mod Stations
