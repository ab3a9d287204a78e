pub mod Words
pub mod Signs
pub mod Lexis
pub mod Bounds
pub mod Progress
pub mod Spelling
pub mod Laws
