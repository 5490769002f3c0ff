-- The stretch of a pin table that hands out a net's pins. Assumes nothing.
-- Stretch  the tables that take part, and a net's stretch of one of them
pub mod Stretch
