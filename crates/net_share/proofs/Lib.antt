pub mod UnitRuns
mod Moves
pub mod Keeping
mod Beginning
pub mod Gathering
mod Paging
mod Apart
pub mod Listed
mod Claimed
pub mod SharedOut
pub mod UnitsLeft
mod EntryNets
pub mod SettledViews
