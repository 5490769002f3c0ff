-- The machine's own theorems, over `model` alone: no code, nothing assumed.
-- 1. A move changes the metric by minus its gain, and the move back has the negated gain: Moves (metric-gain, gain-back).
--    Moves of different vertices commute in blocks, pin counts, weights, gains and metric: Commutes (moves-commute, calls-commute). Lists
--    of accepted moves that end in the same blocks leave the same lent tables and metric: Order (order-of-moves, order-in-files, order-of-tables, either-order).
-- 2. Contraction and uncontraction of two vertices of one block leave the metric and every block's weight: Joins (metric-join),
--    Weights (block_weight-join), Splits (metric-split, block_weight-split), so J and S do: Contractions (J-leaves, S-leaves). With no
--    contraction pins and weights are the loaded ones: Splits (pin-none, weight-none). A clump's gain is the effect on the
--    uncontracted hypergraph: ClumpGain (clump-gain; clump-gains for the gain table's entries).
-- 3. A call under a ceiling that the state is within leaves a state within it: Caps (held-call). From an accepted catalogue, after every list of
--    calls, no block is above the capacity: Reached (within-capacity).
--    A kept lot stays in its session of the draft: Stays (fixed-stays), by Fixed, which says who is fixed along a stack of contractions.
-- 4. No W, P or A, under any ceiling, ends on a higher metric: NeverHigher (never-higher). A walk keeps the prefix of lowest metric,
--    then of lightest heaviest block, then the first: Walks (first-lowest); so at the same metric no W ends with a heavier heaviest block:
--    NeverHigher (W-level).
--    No definition stops for want of fuel: Fuel (walk-rests, polish-rests, coarsen-rests, climb-rests, digits-fuel).
-- 5. When an accepted A ends, under any ceiling, no single move with room lowers the metric: Optimum (A-best; P-best for P).
-- 6. An accepted file is within every range of document 01: Ranges (accepted-ranges, accepted-book).
--    What an entry accepts, one with wider limits reads alike, and answers alike but for 23: Wider (wider-reads, wider-after, wider-report).
-- 7. The cap is between ⌈W/k⌉ and twice that, and does not fall where W grows: Capacity (average-capacity, capacity-twice, capacity-grows).
--    So for every count of bales within the ranges of an estimate no block passes the cap of that count: Counts (every-count).
--    Bounds for the code: ReachedBounds (reached-bounds), SearchBounds (walk-counts, refine-counts, polish-count), AnswerBounds (bounded-call),
--    Stretches (size-le, size-fresh, stretch-le, marks-le). The report fits into the lent output: ReportFits (report-fits), whatever the file:
--    Refusals (engine-fits).
-- 8. Demand 3's machine half, one theorem about the whole list: MachineHalf (machine-half). What is promised at every entry, of lists and of files:
--    Promises (promised, file-serves).
-- 9. The index holds each pair of a board lot and another session once and no other: Ready (each-pair-once); its first open pair in the order of
--    choice is the full search's: Ready (first-is-best). Beneath it Ranked, Inserts, Ranks.
-- 10. What lent memory held before loading, the catalogue and the machine's state tell its every entry: Determined (holds-same). So a refused call
--     changes nothing: Refused (refused-same, after-accepted, refused-change-nothing).
-- Beneath them: Reversals, Climbs, Tops, Ends, Kept, Calls, Clumps, Caps, Reading, Loads, Numbers, Bounds, WeightBounds, StateBounds.
pub mod Moves
pub mod Commutes
pub mod Climbs
pub mod Board
pub mod Fixed
pub mod Joins
pub mod Weights
pub mod Splits
pub mod Tops
pub mod Ends
pub mod Kept
pub mod Walks
pub mod Reading
pub mod Calls
pub mod Contractions
pub mod Clumps
pub mod Caps
pub mod Changes
pub mod Loads
pub mod Reached
pub mod Stays
pub mod ClumpGain
pub mod NeverHigher
pub mod Fuel
pub mod Optimum
pub mod Ranges
pub mod Changed
pub mod Wider
pub mod Numbers
pub mod Bounds
pub mod Capacity
pub mod Counts
pub mod WeightBounds
pub mod SearchBounds
pub mod StateBounds
pub mod AnswerBounds
pub mod ReachedBounds
pub mod Stretches
pub mod ReportFits
pub mod Refusals
pub mod Reversals
pub mod MachineHalf
pub mod Ranked
pub mod Inserts
pub mod Ranks
pub mod Through
pub mod Ready
pub mod Determined
pub mod Order
pub mod Refused
pub mod Promises
