pub mod AtEnd
pub mod Ending
pub mod Crash
pub mod LastBefore
pub mod Tally
pub mod Explanation
