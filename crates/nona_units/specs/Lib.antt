pub mod UnitsView
pub mod Units
pub mod UnitsInside
