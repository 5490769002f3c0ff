pub mod CallTable
pub mod Turns
pub mod Lots
pub mod NetLines
pub mod Ranges
pub mod Loads
