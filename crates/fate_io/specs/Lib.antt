pub mod Causes
pub mod Memory
pub mod Outside
pub mod Putting
pub mod Reading
pub mod Sending
pub mod Numbered
