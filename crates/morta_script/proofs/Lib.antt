pub mod Walk
pub mod Ranges
