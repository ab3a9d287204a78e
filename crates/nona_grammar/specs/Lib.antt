pub mod Levels
pub mod Grammar
pub mod Stack
pub mod Machine
pub mod Faults
pub mod Places
