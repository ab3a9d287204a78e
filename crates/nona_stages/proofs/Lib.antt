pub mod Passing
pub mod Steps
pub mod Linking
pub mod Gathered
pub mod FewUnits
pub mod Planned
pub mod Places
