pub mod Moments
pub mod Overwritten
pub mod Picking
pub mod Standing
pub mod Torn
