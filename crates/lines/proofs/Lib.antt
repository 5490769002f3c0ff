pub mod Asks
pub mod Ends
pub mod LotLines
pub mod Stamps
pub mod Fields
pub mod Bids
pub mod Operands
pub mod Ranges
