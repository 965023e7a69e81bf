-- What any number of draws on one row leave in it. Assumes nothing.
pub mod Draws
