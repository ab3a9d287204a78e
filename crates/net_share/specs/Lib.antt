pub mod Works
pub mod Begins
pub mod May
pub mod Tasks
pub mod Kept
pub mod Gathered
pub mod Settled
pub mod Entries
