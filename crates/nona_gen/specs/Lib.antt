pub mod Code
pub mod Fit
pub mod Gathered
pub mod MainCode
pub mod MainParts
pub mod OfSeen
pub mod Units
