pub mod InStages
pub mod Crossing
pub mod PartsApart
pub mod UnitsSkipped
pub mod Owned
pub mod Behind
pub mod UnitsWithin
pub mod StageNets
pub mod Settles
pub mod Seen
pub mod StageUnits
pub mod SettledPlaces
pub mod ReductionsJoined
pub mod SettledStages
pub mod Placed
mod Examples
mod Moves
mod Asked
mod Beginning
mod Skipping
mod Packets
mod Stepping
mod Gathering
