pub mod InFlight
mod YoungestLeft
mod Moving
pub mod MovesOn
mod View
pub mod Numbers
pub mod Plain
pub mod Dropped
pub mod Walk
pub mod Followed
pub mod EndedRun
pub mod OneRun
pub mod Still
pub mod Shown
pub mod ByAddress
