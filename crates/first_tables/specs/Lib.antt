-- The running tables after loading.
-- Clear    entries written, or made 0
-- Fill     each net counts its pins
-- Prepare  both, one after the other
-- Load     prepared tables follow a fresh machine
pub mod Clear
pub mod Fill
pub mod Prepare
pub mod Load
