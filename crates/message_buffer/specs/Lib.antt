pub mod HandValues
pub mod Hands
pub mod BufferValues
pub mod Buffers
pub mod Listed
pub mod Posted
pub mod Worked
