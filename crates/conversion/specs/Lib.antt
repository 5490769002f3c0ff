-- An input that is carried over gives a catalogue whose text loads as that input's hypergraph, with its metric: no code, nothing assumed.
-- Well     a well-written input part by part, and how many lines of each kind it has
-- Carries  what is carried over is within the ranges of a catalogue
-- Metric   the total of the catalogue is the metric of the input's partition
-- Loads    the theorem
pub mod Well
pub mod Carries
pub mod Metric
pub mod Loads
