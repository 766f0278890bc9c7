mod Answered
mod Asked
mod Compared
mod Ending
mod LinesAfter
mod PassedOn
mod Referred
mod Simulated
pub mod OneReport
pub mod OneTable
pub mod OneView
pub mod Viewed
pub mod OneSensitivity
pub mod Tried
