pub mod Turns
pub mod Meetings
