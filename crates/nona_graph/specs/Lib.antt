pub mod Sets
pub mod Touched
pub mod Printing
pub mod Uses
pub mod Meeting
pub mod Facts
