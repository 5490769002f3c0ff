-- A catalogue and a list of calls apart from each other, in memory that is long enough. Assumes nothing.
-- Lists  the tests of a list, and what is left
pub mod Lists
