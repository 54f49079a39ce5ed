pub mod HandValues
pub mod TwoEach
