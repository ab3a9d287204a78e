pub mod Sharing
pub mod FoldArrays
pub mod Fission
