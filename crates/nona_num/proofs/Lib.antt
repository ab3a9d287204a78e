pub mod Wrapping
pub mod Products
pub mod NumberLaws
pub mod FoldLaws
