-- What the vertices of a block weigh together.
-- Term  what one of them adds
pub mod Term
