pub mod LanedHub
pub mod Notes
pub mod GivenUp
pub mod Theorems
