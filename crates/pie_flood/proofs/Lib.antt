pub mod LeastFlood
pub mod WorkedJobs
