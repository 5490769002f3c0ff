-- W on the tables of a running sale, equal to model's. Assumes nothing.
-- Back       the way back of a walk
-- Kept       which prefix is kept: its worth in the code's variables
-- Steps      a walk on its way: what tables and variables are for model's walk; the contracts of W
-- Taking     one move of a walk
-- Turning    one turn of it
-- Whole      W from its start to its end
pub mod Back
pub mod Kept
pub mod Steps
pub mod Taking
pub mod Turning
pub mod Whole
