-- From the tables as loading leaves them to a running sale on a fresh machine.
-- Opening  what `open` needs and promises, and its proof
-- Example  a catalogue whose tables meet both
pub mod Opening
pub mod Example
