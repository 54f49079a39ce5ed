pub mod LeastDist
pub mod WorkedParts
pub mod Readings
pub mod Trees
pub mod TakenMirrors
