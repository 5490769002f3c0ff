-- Numbers  no refusal has the number 0
-- Results  a value that is missing, and what a line gives
pub mod Numbers
pub mod Results
