pub mod Numbers
pub mod Folds
pub mod Ranges
