-- What the functions of this crate rest on. Assumes nothing.
pub mod Left
