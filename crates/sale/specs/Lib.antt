-- A list of calls on tables as loading left them, and the report behind it. Assumes nothing.
-- Sale      what a list of calls needs, and that it leaves what demand 3 says
-- Reported  the same with the closing report
-- Files     from the loader's two answers to a file's end, in model's terms
pub mod Sale
pub mod Reported
pub mod Files
