pub mod Arrays
pub mod Input
pub mod Banks
pub mod Overlays
pub mod Shares
