pub mod FloodJobs
pub mod Laws
pub mod Worked
