pub mod Shapes
pub mod Runs
pub mod Turns
pub mod Keeping
pub mod Endings
pub mod Leaving
pub mod Seats
pub mod Visits
