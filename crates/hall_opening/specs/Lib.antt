-- A hall's sets of tables made ready for its calls. Assumes nothing.
-- Filled    what opening fills and reads, of one catalogue and of all
-- Opening   what it needs and promises
-- Standing  the promise said of a hall's sets: each stands for its catalogue (set-goes), with the draft's total (draft-total); the others are kept (set-kept)
pub mod Filled
pub mod Opening
pub mod Standing
