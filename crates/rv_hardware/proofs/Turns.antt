-- What each phase does, turn by turn: the outcomes of a turn, and what a property needs so that all turns keep it.
pub mod Forms
pub mod Costs
pub mod KeptByIssue
pub mod KeptByBroadcast
pub mod KeptByDispatch
pub mod KeptByDrain
pub mod KeptByCommit
pub mod Changes
pub mod KeptByCycle
pub mod Fetch
pub mod Issue
pub mod Broadcast
pub mod Dispatch
pub mod Commit
pub mod Cited
