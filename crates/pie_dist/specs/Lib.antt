pub mod DistJobs
pub mod Laws
pub mod Worked
pub mod ByReadings
pub mod NearHeaps
