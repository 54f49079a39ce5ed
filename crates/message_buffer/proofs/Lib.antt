pub mod Places
pub mod Meeting
pub mod Waiting
pub mod Posting
pub mod Listing
pub mod Kept
