pub mod BoxLoops
pub mod CheckEquations
pub mod EntryLaws
pub mod AskedLaws
pub mod AskedEquations
pub mod Ready
pub mod GuardLaws
