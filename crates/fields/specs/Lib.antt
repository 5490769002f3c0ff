-- What the functions of this crate leave in a lent buffer. Assumes nothing.
pub mod Wrote
