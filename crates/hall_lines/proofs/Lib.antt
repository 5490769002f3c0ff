pub mod Headings
pub mod Leads
pub mod LedTables
pub mod LedTurns
