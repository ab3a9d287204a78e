pub mod Marks
pub mod Sparse
