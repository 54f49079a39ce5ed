pub mod Examples
pub mod FromFresh
