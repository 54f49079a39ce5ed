pub mod Steps
pub mod Mirrors
pub mod Solved
pub mod LeastJobs
