-- A's contractions on the tables of a running sale, equal to model's. Assumes nothing.
-- Own      the blocks by which vertices are paired
-- Linked   what sound tables tell the choice of a pair to contract
-- Coarsen  contractions while more than 2 × k vertices are on the board
pub mod Own
pub mod Linked
pub mod Coarsen
