-- Which reason fits a column, and what is proved of explanations. Assumes nothing.
pub mod Fits
pub mod Explanations
