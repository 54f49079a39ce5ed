pub mod Places
pub mod Beginnings
pub mod Forms
pub mod Causes
pub mod Turns
pub mod Settled
pub mod Done
pub mod Seating
mod Keeping
pub mod Sizing
pub mod Going
pub mod Visits
pub mod Ends
pub mod Leaves
pub mod Telling
pub mod Finishing
