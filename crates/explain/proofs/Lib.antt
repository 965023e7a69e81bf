-- Laws of an explanation. No contract cites them. Assumes nothing.
--
-- Numbers: what the tests find, and the reason by it. Columns: a column's colours and its entry. Cases: the reason of a case.
pub mod Numbers
pub mod Columns
pub mod Cases
