pub mod Picking
pub mod Choices
pub mod Links
pub mod Seen
pub mod Walking
pub mod PlansInside
