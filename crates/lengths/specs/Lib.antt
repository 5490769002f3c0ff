-- Is lent memory as long as document 01 asks. Assumes nothing.
-- Tests  the tests one by one are model's
pub mod Tests
