pub mod Events
pub mod JournalList
pub mod Journals
pub mod Packing
