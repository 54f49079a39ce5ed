pub mod Driving
pub mod Ends
