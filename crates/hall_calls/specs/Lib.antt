-- A list of led call lines on the sets of tables of a hall. Assumes nothing.
-- Lines   the led call lines that a table holds, and what the hall's list does with one more
-- Short   how long a desk's stack, record and free numbers get
-- Course  what the list needs and promises, and its loop
pub mod Lines
pub mod Short
pub mod Course
