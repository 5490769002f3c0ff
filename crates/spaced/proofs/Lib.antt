pub mod Words
pub mod Single
pub mod Stamps
pub mod Edges
pub mod Digits
