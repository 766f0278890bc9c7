mod AtEnd
mod Explained
mod InFlight
mod LastBefore
pub mod OneExplanation
mod Tallies
mod Tallying
