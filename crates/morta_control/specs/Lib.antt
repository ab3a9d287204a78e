pub mod Decisions
pub mod ControllerView
pub mod ControllerInside
pub mod ControllerPromise
pub mod Rounds
