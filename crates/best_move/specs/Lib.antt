-- The best open pair to move, equal to model's choice.
-- Open        the best open pair, as the tables have it
-- OpenLaw     its laws
-- First       the first block of a ranked row that has room
-- Peak        bounds on the gains of each part of 64 vertices, and how they are raised
-- PeakLaw     a part whose peak is not above the best gain holds no better pair
-- Rising      tests that most candidates fail, so that they are not weighed
-- RisingLaw   what a failed test says of a vertex's pairs
-- OpenLink    it is the pair that a walk or a polish of model takes, where the tables hold its state
pub mod Open
pub mod OpenLaw
pub mod First
pub mod Peak
pub mod PeakLaw
pub mod Rising
pub mod RisingLaw
pub mod OpenLink
