pub mod Codes
pub mod Heads
pub mod Plans
pub mod Checks
pub mod Whole
