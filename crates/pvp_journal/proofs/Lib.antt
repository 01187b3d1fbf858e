pub mod Halves
pub mod Checksums
pub mod Again
pub mod Loop
pub mod Places
pub mod Taken
pub mod Sealed
pub mod Recorded
pub mod Spelled
pub mod Partial
pub mod Written
pub mod Retaking
pub mod Entries
pub mod Batches
pub mod Going
pub mod Journals
pub mod Replaying
-- how a site comes back, computed
mod WorkedWays
