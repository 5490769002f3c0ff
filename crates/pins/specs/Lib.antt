-- Pin lists and their undo.
-- Rising   a stretch whose pins rise; a pin carried to its end, or let down to its place
-- Sorting  pins put in order, net by net
-- Row      a net's pins put in order by a row of vertex bits
-- Halves   a place in a rising stretch, found by halves
-- Lift     a pin that becomes a higher one and goes up to its place
-- Link     a pin replaced or removed in one stretch, and put back
-- Stack    what the contraction stack says of a net: its pins, and those removed, the last removed first
-- Stretch  one net's list against the stack
-- Board    all nets' lists and the incidence against a stack for each net
-- Split    a contraction undone in one net; Uncontract in all nets
pub mod Rising
pub mod Sorting
pub mod Row
pub mod Halves
pub mod Lift
pub mod Link
pub mod Stack
pub mod Stretch
pub mod Board
pub mod Split
pub mod Uncontract
