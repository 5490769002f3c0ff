-- Document 01 as definitions, in the terms of hypergraph partitioning; and its proved table. Assumes nothing.
-- Catalogue  the loaded catalogue as a hypergraph; the limits of an entry; the capacity
-- Measure    representative, pins, pin counts, weights, connectivity metric, gain and its halves
-- Machine    the plain machine's state; the calls J, S, M, B and their refusals
-- Search     the best pair, walks, polish, ratings; the calls W, P, A; what every call does
-- Sale       request M-111: a sale, whose catalogue X and N change; what every call line does
-- Grammar    the sale file: lines, fields, numbers, refusals 1 to 7 and 21
-- Report     answers and the closing report as bytes
-- Engine     a list of calls; the file to a code and a report
-- Index      request M-107: the order of choice over pairs, and a lot's row of the index
-- Memory     lent memory: what each table holds, what is free, what keeps; what the engine leaves
-- Clump      request M-108: what a clump's gain means in the unjoined catalogue
-- Ready      request M-107: that the index holds each pair once, and that its first open pair is the full search's
-- Lent       how lent slices, returned arrays and lists of numbers read as lent memory, stack, record of moves and calls
-- Demand     what demand 3 speaks of: an accepted catalogue, the machine's own states, what stands in lent memory
-- Estimate   request M-109: what holds of every count of bales within the ranges
-- Promises   what is promised of every accepted catalogue and its calls at every entry; demand 3
-- ListEntry  what the entry for a catalogue and a list of calls apart returns and leaves
-- Refused    demand 1: a refused call changes nothing, in every entry of lent memory
-- Order      request M-110: the order of moves
-- Hmetis     what a converter's input says: an hMETIS file and its partition listing; M-100
-- CatalogueText  a catalogue as a sale file without calls
-- Convert    which inputs are carried over, the catalogue, and what the converter leaves
-- Conversions  inputs that are converted and inputs that are refused, proved by computing
-- Through    the lines of one catalogue, wherever in a file it begins
-- Hall       request M-112: a call line of one sale beside others, the hall's desks, a list of call lines, the report
-- HallText   the file of a hall, refusals 2, 3, 7, 24; what the engine returns and writes for it
-- HallDemand demand 3 for a hall, and what its entry leaves
-- HallLent   what the hall's entry takes, read in the definitions
-- HallRefused  demand 1 in a hall: a refused call line changes nothing, in every entry of every set of tables
-- HallOrder  request M-110 in a hall: the order of moves
-- HallWorked whole halls, proved by computing
-- Sheets     request M-113: buyers' sheets, what holds of them, what the product leaves; SheetsWorked sheets, proved by computing
-- Table      the starred cases, and worked cases of the requests; Edges the files that are turned down and those just accepted; Worked whole sales
--
-- What the customers' functions promise is stated by these files alone. They use, and a reader must believe as well:
--   from laws  Choice `one`; Sum `sum_to`, `count_to`, `fold_to`; Fold `sum_over`, `all`, `any`; Place `place`; Occurrence `occ`
--   from the kit  ℕ with its arithmetic, `max`, ≤ and <; Bool with `not`, `&&`, `||`, `cond`, and the tests `eqb`, `leb`, `ltb`; ℤ with `pos`,
--     `negsuc`, -ℤ, `lt_z`; List with ++, `map`, `length`, `get_or`, `set`, `take`, `drop`, `replicate`; String as its characters' codes; ≡, Unit, ⊥, ×, ⊎
pub mod Catalogue
pub mod Measure
pub mod Machine
pub mod Search
pub mod Sale
pub mod Grammar
pub mod Report
pub mod Engine
pub mod Index
pub mod Memory
pub mod Clump
pub mod Ready
pub mod Lent
pub mod Demand
pub mod Estimate
pub mod Promises
pub mod ListEntry
pub mod Refused
pub mod Order
pub mod Table
pub mod Edges
pub mod Worked
pub mod Hmetis
pub mod CatalogueText
pub mod Convert
pub mod Conversions
pub mod Through
pub mod Hall
pub mod HallText
pub mod HallDemand
pub mod HallLent
pub mod HallRefused
pub mod HallOrder
pub mod HallWorked
pub mod Sheets
pub mod SheetsWorked
