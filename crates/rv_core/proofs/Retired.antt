-- The head's turn in the commit phase: it retires, executes or waits, and what is younger stays or is squashed.
pub mod Fence
pub mod Flushed
pub mod Head
pub mod Loop
pub mod Roles
pub mod Serial
pub mod Sound
pub mod Squashed
pub mod Stores
pub mod Taught
pub mod Write
