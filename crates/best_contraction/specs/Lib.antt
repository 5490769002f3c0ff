-- The best pair to contract, equal to model's choice.
-- Rating      ratings, as the tables have them
-- RatingLaw   ratings added up over the nets of a vertex; no rating passes the sum of the terms of its own nets
-- PartnerLaw  the best partner of a vertex
-- JoinLaw     the best pair to contract, row by row
-- JoinPair    it is model's best pair
-- Bound       bounds on the ratings of each vertex
-- BoundLaw    how bounds begin, and how they are raised
-- PartTop     the highest bound of each part of 64 vertices, and the highest of all by them
-- Settling    the best pair found by bounds
-- JoinLink    it is the pair that model contracts, where the tables hold its state
-- BoundLink   bounds raised for a contraction are bounds after it
pub mod Rating
pub mod RatingLaw
pub mod PartnerLaw
pub mod JoinLaw
pub mod JoinPair
pub mod Bound
pub mod BoundLaw
pub mod PartTop
pub mod Settling
pub mod JoinLink
pub mod BoundLink
