-- A list of call lines on a running sale, and the lines of its answers. Assumes nothing.
-- Start    where a list begins
-- Point    where a list stands; what one step needs and promises
-- Opened   tables as loading left them, opened: they stand for the catalogue as loaded
-- Machine  a call of the machine as a step
-- Late     X and N as steps
-- Asked    which call line an entry of the table of calls is
-- Course   what a list needs and promises, and its loop
pub mod Start
pub mod Point
pub mod Opened
pub mod Machine
pub mod Late
pub mod Asked
pub mod Course
