-- What a draw is asked for, and what its input is found to be. Assumes nothing.
pub mod Judge
pub mod Code
