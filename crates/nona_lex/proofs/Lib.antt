pub mod Choices
pub mod Within
pub mod Lexing
pub mod Spelled
pub mod Longest
pub mod Few
pub mod Spread
pub mod TokenNumbers
