pub mod LeastEquations
pub mod Lowering
