pub mod Making
pub mod Turns
pub mod Reading
