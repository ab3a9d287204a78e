pub mod Checks
pub mod Asked
pub mod Guards
