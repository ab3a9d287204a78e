pub mod After
pub mod First
pub mod Known
pub mod Merged
pub mod Primaries
