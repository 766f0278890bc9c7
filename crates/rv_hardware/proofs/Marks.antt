-- The marks of a run: the stamps of its rows, of the instructions in flight and of the fetched words, in program order.
pub mod List
pub mod Advance
pub mod Evidence
pub mod Sound
pub mod Row
pub mod Basics
pub mod Phases
pub mod History
pub mod Past
pub mod Order
pub mod Counted
pub mod Widths
pub mod Pairs
pub mod Keeps
pub mod Cited
