-- What the program replay compares.
pub mod Same
