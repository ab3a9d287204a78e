pub mod Small
pub mod Lists
pub mod Steps
pub mod Spotted
pub mod Tallies
pub mod Put
