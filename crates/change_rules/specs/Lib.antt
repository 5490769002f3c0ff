-- What X and N go by, as the tables tell it.
-- Free      the numbers withdrawn and still free, as an array and a length
-- Named     the buyers that N names, as a table of 0 and 1
-- Refusal   the refusals of X and N, in their order
-- Lot       the columns of one lot
pub mod Free
pub mod Named
pub mod Refusal
pub mod Lot
