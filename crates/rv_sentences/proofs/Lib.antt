mod Cases
pub mod CountSums
pub mod CountsGrow
pub mod DrainBegins
pub mod DrainCounts
pub mod DrainsGrow
pub mod LastStores
pub mod InterruptsGrow
mod LineCounts
mod LinesCounted
mod LargestFirst
pub mod LeftGrows
pub mod KindsGrow
mod Options
mod SeriesGrows
mod CountedLines
mod StoreWords
mod WordTable
pub mod Works
mod WorstLines
pub mod OutcomesGrow
pub mod StaysGrow
pub mod AccountsGrow
pub mod RaisedGrows
mod Addresses
