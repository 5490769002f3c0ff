-- The list entry's lines lie in the output. Assumes nothing.
pub mod Lines
