mod Choosing
pub mod Grouping
pub mod Leaving
mod Lowest
pub mod Marking
pub mod Paging
pub mod Parts
pub mod Passing
pub mod Placing
pub mod Shifting
