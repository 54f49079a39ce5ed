pub mod Lines
pub mod NumberSets
pub mod WordTables
pub mod Labels
