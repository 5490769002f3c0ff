-- Who is fixed, as marks that a search begins with. Assumes nothing.
-- Starting   what such marks are for a catalogue and a stack of contractions; the contracts
-- Column     the marks made from the column that loading writes
-- Stacked    the marks along a stack of contractions
pub mod Starting
pub mod Column
pub mod Stacked
