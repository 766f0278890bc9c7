pub mod Accounts
mod Advances
mod AllLeft
mod Backwards
mod Brought
pub mod Caused
mod Cycles
mod Drains
mod EventLists
pub mod Followed
mod Forgotten
mod Leavings
mod Lives
mod Lookups
mod Meetings
mod Moves
mod News
mod NoHolds
mod Nothing
mod Passing
mod Queued
pub mod Unmarked
mod Waits
pub mod Walks
mod Windows
pub mod Within
mod WordChanges
mod WordPlaces
pub mod WordSums
mod WordWaits
