pub mod Series
pub mod Weighing
pub mod Halls
