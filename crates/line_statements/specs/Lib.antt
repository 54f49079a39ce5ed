pub mod Statements
pub mod PlainLines
