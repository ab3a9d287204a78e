pub mod AfterLaws
pub mod CheckLaws
pub mod FirstLaws
pub mod KnownNames
pub mod MergedLaws
pub mod Steps
pub mod StmtLaws
