-- A, the n-level cycle, on the tables of a running sale, equal to model's. Assumes nothing.
-- Refine  contractions undone, each with a walk from the parted pair
-- Whole   coarsening's contractions, then these, then P
pub mod Refine
pub mod Whole
