pub mod Splitting
pub mod LineEnds
pub mod Numbers
