-- Turns  the loop over the sets: none opened, one more, all
pub mod Turns
