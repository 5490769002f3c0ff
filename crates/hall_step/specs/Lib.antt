-- A call line on one of a hall's sets of tables. Assumes nothing.
-- Sets  the sets, one of them, and one replaced
-- Step  what a step on one set needs and promises
pub mod Sets
pub mod Step
