pub mod Filing
pub mod Owners
pub mod Halves
pub mod Routing
pub mod Cut
