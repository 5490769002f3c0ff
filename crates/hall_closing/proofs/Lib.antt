-- Turns  the loop over the sets: no report written, one more, all
pub mod Turns
