pub mod Build
pub mod Refusals
pub mod OneReason
