-- The mathematics that all crates share: definitions of sums, tests and updates, and their laws. Assumes nothing.
-- Choice      cond and one: a choice by a test, 1 for true; laws of &&, ||
-- Sum         sum, count_below over 0..n-1; sum_to, count_to, fold_to over 1..n; laws of extension, change, addition, order
-- Fold        sum_over, any, all, All over a list; laws of extension, order, one element more
-- Place       a function with another value at one argument; laws of reading, undoing, swapping
-- Integer     ℤ for omega by its two parts; order, bounds, 32-bit reading
-- IntegerSum  sums of integers below a bound
-- Occurrence  how often a number stands in a stretch of a list; distinctness
-- Rising      a stretch of a list that rises; what stands in it tells its places
-- Bit         bits of a mask, set, cleared and counted
pub mod Choice
pub mod Sum
pub mod Fold
pub mod Place
pub mod Integer
pub mod IntegerSum
pub mod Occurrence
pub mod Rising
pub mod Bit
