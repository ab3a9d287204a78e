pub mod Bytes
pub mod Pieces
pub mod Digits
pub mod Fronts
