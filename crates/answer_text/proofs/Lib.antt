pub mod Numbers
pub mod RowValues
pub mod Texts
pub mod Tallies
