pub mod Lowering
pub mod Sizing
pub mod Copying
pub mod Marking
