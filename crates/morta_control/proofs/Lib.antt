pub mod Coming
pub mod Counting
pub mod Keeping
pub mod Legal
