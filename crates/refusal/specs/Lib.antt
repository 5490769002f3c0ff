-- The refusals.
-- Number  the number of each
pub mod Number
