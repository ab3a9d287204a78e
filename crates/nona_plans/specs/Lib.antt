pub mod Mentions
pub mod Units
pub mod Walks
pub mod Components
pub mod Stages
pub mod Lawful
pub mod Plans
