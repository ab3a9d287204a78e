pub mod Reading
pub mod Steps
pub mod Prefixes
pub mod Declaring
