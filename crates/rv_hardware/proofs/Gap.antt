-- No run stands still for longer than the bound.
pub mod Patience
pub mod Bound
pub mod Silent
pub mod Drained
pub mod UnitTime
pub mod Head
pub mod Ready
pub mod Waiting
pub mod Execute
pub mod FallRunning
pub mod FallWaiting
pub mod FallFence
pub mod FallEmpty
pub mod Fall
pub mod Run
