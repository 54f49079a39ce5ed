pub mod Assembled
pub mod Blank
pub mod Created
pub mod Gates
mod Kept
pub mod Moments
pub mod Pieces
pub mod Opens
pub mod Put
pub mod Read
pub mod Staged
pub mod SlotRead
pub mod TwoSlots
pub mod Unchanged
pub mod Wrong
