-- What the functions of this crate write and read. Assumes nothing.
-- Order   lots by session and then number, and those of them that are marked
-- Use     how many entries of a table are in use
-- Tables  the engine's tables, as they show a sale
pub mod Order
pub mod Tables
pub mod Use
