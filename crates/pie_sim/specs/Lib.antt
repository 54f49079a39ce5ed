pub mod SimJobs
pub mod Falling
pub mod Counting
pub mod Laws
pub mod Worked
