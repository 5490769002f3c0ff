-- What a table of the vertices above shows. Assumes nothing.
-- Above  the vertices above of a stack of contractions
pub mod Above
